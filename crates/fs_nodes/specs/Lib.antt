pub mod Graphs
pub mod Stores
pub mod Seen
pub mod code
