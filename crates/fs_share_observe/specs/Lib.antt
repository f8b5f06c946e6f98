pub mod History
pub mod Lists
pub mod Observed
pub mod Pasts
pub mod Playing
pub mod Tied
