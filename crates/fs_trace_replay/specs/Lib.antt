pub mod Commits
pub mod Changes
pub mod Texts
pub mod Questions
pub mod Faults
pub mod Replays
pub mod Makes
pub mod code
