pub mod AddLemmas
pub mod RowLemmas
pub mod OutcomeLemmas
pub mod ListLemmas
pub mod AddingLemmas
pub mod Holding
pub mod Deciding
