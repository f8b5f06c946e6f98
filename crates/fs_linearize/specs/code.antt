-- What ties the code to the definitions: of it nothing has to be believed.
pub mod Knowing
pub mod Replies
pub mod Searched
pub mod Tellings
