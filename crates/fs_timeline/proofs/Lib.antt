pub mod TimelineLemmas
pub mod AppendLemmas
pub mod ReplyLemmas
pub mod VerdictLemmas
pub mod JournalStateLemmas
pub mod KeptNames
pub mod IndexLemmas
