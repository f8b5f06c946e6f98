pub mod Sleeping
