pub mod Seats
pub mod code
