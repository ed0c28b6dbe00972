pub mod Doubles
pub mod Definitions
pub mod Objects
pub mod HeldFiles
pub mod Judgements
