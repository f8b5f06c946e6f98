pub mod Files
pub mod code
