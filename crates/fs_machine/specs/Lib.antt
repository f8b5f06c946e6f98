pub mod Records
pub mod Moves
pub mod Finishes
pub mod Leaving
pub mod States
pub mod Headline
pub mod OpValues
pub mod Laws
