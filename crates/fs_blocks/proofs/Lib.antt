pub mod CountLemmas
pub mod FileLemmas
pub mod PartLemmas
pub mod PutLemmas
pub mod SpanLemmas
