pub mod Lives
pub mod What
pub mod Reading
pub mod Finds
pub mod Faults
pub mod Makes
pub mod Objects
pub mod code
