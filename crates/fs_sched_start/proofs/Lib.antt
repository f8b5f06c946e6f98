pub mod NodeLines
pub mod Starting
pub mod Ranges
