pub mod Apart
pub mod Each
pub mod Entries
pub mod Listed
pub mod Names
pub mod Slices
