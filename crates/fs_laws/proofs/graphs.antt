-- How keys resolve in a graph after a change, and that each change leaves a graph.
pub mod Walks
pub mod TreesOfChanges
pub mod Listings
pub mod Local
pub mod Link
pub mod Unlink
pub mod Move
pub mod Swap
pub mod Alterations
pub mod Release
