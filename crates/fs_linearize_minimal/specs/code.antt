-- What ties the code to the definitions: of it nothing has to be believed.
pub mod Tries
pub mod Cuts
pub mod Laws
