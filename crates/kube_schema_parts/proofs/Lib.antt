pub mod Bound
pub mod Replaced
pub mod Rows
