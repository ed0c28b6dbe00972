pub mod Quoted
pub mod Pieces
