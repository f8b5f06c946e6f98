pub mod Dones
pub mod Jobs
pub mod Pools
