pub mod Calls
pub mod Meetings
pub mod Seen
pub mod code
