pub mod Edits
pub mod Positions
pub mod Spelling
