pub mod Limits
pub mod Script
pub mod TreeText
pub mod Journals
pub mod Examples
pub mod Laws
pub mod code
