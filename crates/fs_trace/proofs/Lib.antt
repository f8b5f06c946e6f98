mod Blocks
mod Heads
mod Lining
mod Making
mod Naming
mod Objecting
pub mod Playing
mod Rereading
mod Wording
