pub mod SeatLemmas
pub mod Below
pub mod Among
pub mod Searching
pub mod Ways
