pub mod Limited
pub mod Possible
pub mod Results
pub mod code
