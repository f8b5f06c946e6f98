pub mod Texts
pub mod Answers
pub mod Findings
pub mod Many
pub mod Learnings
pub mod Makes
pub mod code
