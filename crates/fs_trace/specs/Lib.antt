pub mod Examples
pub mod Faults
pub mod Makes
pub mod Objects
pub mod Traces
pub mod code
