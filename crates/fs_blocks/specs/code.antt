pub mod Blocks
pub mod Bytes
pub mod Forms
pub mod Ranges
pub mod Rooms
