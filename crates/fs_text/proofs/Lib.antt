pub mod ReadLemmas
pub mod EntryLemmas
pub mod SpellLemmas
pub mod FitLemmas
pub mod ShortLemmas
pub mod ReadNames
