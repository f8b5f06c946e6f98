pub mod Lines
pub mod Words
pub mod Headers
pub mod Reading
pub mod Json
pub mod JsonObjects
pub mod JsonReading
pub mod code
