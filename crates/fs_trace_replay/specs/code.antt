-- What ties the code to the definitions: of it nothing has to be believed.
pub mod Seen
pub mod Sights
pub mod Tellings
pub mod Laws
