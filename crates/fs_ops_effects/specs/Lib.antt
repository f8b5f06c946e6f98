pub mod Rooms
pub mod Lows
pub mod Replies
pub mod Endings
pub mod Paths
pub mod Plans
