pub mod Files
pub mod Spares
pub mod Vectors
pub mod code
