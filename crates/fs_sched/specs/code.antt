-- What ties the code to the definitions: of it nothing has to be believed.
pub mod Stages
pub mod Counts
pub mod Ahead
pub mod Mades
pub mod Done
pub mod Notes
