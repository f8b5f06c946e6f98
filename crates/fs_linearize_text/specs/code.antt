-- What ties the code to the definitions: of it nothing has to be believed.
pub mod TooLarge
pub mod Walks
pub mod Fronts
pub mod Each
pub mod Learns
pub mod Laws
