pub mod KeyLemmas
pub mod SearchLemmas
pub mod SeenLemmas
pub mod FaultLemmas
pub mod ChangeLemmas
mod RowLemmas
pub mod RangeLemmas
pub mod RiseLemmas
pub mod WovenLemmas
