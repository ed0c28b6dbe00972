pub mod Book
pub mod Extensions
pub mod Built
pub mod Entries
pub mod Stored
