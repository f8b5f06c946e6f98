pub mod Kept
pub mod Moves
pub mod Telling
pub mod Shrinks
pub mod Faults
pub mod Makes
pub mod code
