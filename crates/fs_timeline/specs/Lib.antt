pub mod Timeline
pub mod Verdicts
pub mod JournalStates
pub mod Laws
pub mod Examples
pub mod Index
pub mod code
