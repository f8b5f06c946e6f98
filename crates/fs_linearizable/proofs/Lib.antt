pub mod LawfulLemmas
pub mod LinearizationLemmas
pub mod SeatLemmas
