pub mod Faults
pub mod Starts
pub mod Makes
pub mod Objects
pub mod Laws
pub mod code
