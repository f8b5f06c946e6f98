pub mod Handles
pub mod Exports
pub mod Tools
pub mod Sleepers
pub mod ToolTexts
