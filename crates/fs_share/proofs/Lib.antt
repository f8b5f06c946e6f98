pub mod Counting
pub mod Idle
pub mod Placing
pub mod Publishing
pub mod Same
pub mod Beginning
pub mod Waiting
