pub mod AnswerLemmas
pub mod ListingLemmas
pub mod MoveLemmas
pub mod Listing
