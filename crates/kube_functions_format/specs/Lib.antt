pub mod Pieces
pub mod Verbs
pub mod Formatted
pub mod Progress
pub mod Laws
