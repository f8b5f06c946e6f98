pub mod Plains
pub mod Stores
pub mod Seen
pub mod code
