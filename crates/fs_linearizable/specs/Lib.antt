pub mod Linearizable
pub mod Laws
pub mod Examples
