pub mod Colours
pub mod Layouts
pub mod code
