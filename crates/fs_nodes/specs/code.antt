-- What ties the code to the definitions: of it nothing has to be believed.
pub mod Linked
pub mod Frees
pub mod Indexes
pub mod Forms
