pub mod PartLemmas
pub mod RestLemmas
