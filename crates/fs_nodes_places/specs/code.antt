-- What ties the code to the definitions: of it nothing has to be believed.
pub mod Spots
pub mod Keys
pub mod Edits
pub mod Hints
pub mod PlainEdits
pub mod Picks
