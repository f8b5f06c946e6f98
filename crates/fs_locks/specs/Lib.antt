pub mod Holding
pub mod Held
