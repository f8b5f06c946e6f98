pub mod Parts
pub mod Reasons
pub mod Minimal
pub mod Minimizing
pub mod Texts
pub mod Makes
pub mod code
