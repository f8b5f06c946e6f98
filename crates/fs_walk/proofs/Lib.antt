pub mod ParentLemmas
pub mod FindLemmas
