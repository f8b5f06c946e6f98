pub mod Html
pub mod Pages
pub mod Makes
pub mod code
