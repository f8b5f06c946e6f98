pub mod CoreValues
pub mod Checkpoints
pub mod Events
pub mod code
pub mod Told
pub mod Calls
