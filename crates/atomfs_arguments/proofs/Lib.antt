mod Somes
pub mod Saying
mod Viewing
