-- What ties the code to the definitions: of it nothing has to be believed.
pub mod Effects
pub mod Renaming
pub mod Exchanging
pub mod Walks
pub mod Added
