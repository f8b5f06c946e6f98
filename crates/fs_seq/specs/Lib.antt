pub mod Memory
pub mod Looks
pub mod Rows
pub mod RowLaws
pub mod code
