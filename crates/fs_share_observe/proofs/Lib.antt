pub mod Adding
pub mod Fronts
pub mod Keeping
pub mod Pasts
pub mod Taking
