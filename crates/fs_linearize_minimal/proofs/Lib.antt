mod PartLemmas
mod ReasonLemmas
mod RefusedLemmas
mod EachLemmas
