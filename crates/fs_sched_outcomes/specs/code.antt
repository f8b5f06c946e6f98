-- What ties the code to the definitions: of it nothing has to be believed.
pub mod Adding
pub mod Mades
pub mod Laws
