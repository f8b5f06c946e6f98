-- What ties the code to the definitions: of it nothing has to be believed.
pub mod Marks
pub mod Laws
