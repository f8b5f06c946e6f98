pub mod Living
pub mod Founds
pub mod Steps
pub mod Splitting
pub mod Telling
