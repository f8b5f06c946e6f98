pub mod Each
pub mod Entries
pub mod Makes
pub mod Objects
pub mod code
