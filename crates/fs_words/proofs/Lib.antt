pub mod WordLemmas
pub mod EscapeLemmas
pub mod NumberLemmas
pub mod WriteLemmas
pub mod ReadLemmas
pub mod PathLemmas
pub mod DecimalLemmas
pub mod DigitLemmas
pub mod PlainLemmas
pub mod HeaderLemmas
mod Again
pub mod Chains
