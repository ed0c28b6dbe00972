pub mod Blanks
pub mod Counts
pub mod OwnKeys
