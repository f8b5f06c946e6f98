pub mod Calls
pub mod Journal
pub mod Fits
pub mod Laws
pub mod Examples
pub mod code
