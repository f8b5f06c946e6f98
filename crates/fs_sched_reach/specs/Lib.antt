pub mod Coming
pub mod Counts
pub mod Examples
pub mod Plain
pub mod Words
pub mod Written
pub mod code
