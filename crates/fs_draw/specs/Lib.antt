pub mod Faults
pub mod Pictures
pub mod Makes
pub mod code
