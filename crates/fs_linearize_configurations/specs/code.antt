-- What ties the code to the definitions: of it nothing has to be believed.
pub mod Keys
pub mod Chained
pub mod Layers
pub mod Ways
pub mod Calls
pub mod Stopping
pub mod Searching
pub mod Walking
