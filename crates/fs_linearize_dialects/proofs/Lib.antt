pub mod ErrorLemmas
pub mod WideLemmas
pub mod LearnLemmas
pub mod AcceptLemmas
pub mod TableLemmas
