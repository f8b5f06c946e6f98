pub mod Ways
pub mod Wants
