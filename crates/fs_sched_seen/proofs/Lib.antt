pub mod ListLemmas
pub mod HeardLemmas
pub mod MeetLemmas
