-- What ties the code to the definitions: of it nothing has to be believed.
pub mod Slots
pub mod Entries
pub mod Nodes
pub mod Lists
pub mod Forms
