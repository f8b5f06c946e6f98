pub mod CheckLemmas
pub mod Unmade
pub mod KnownLemmas
pub mod Performed
mod Performing
mod Verdicts
