pub mod Limits
pub mod Optionals
pub mod Selections
pub mod Pairs
pub mod Maps
pub mod Types
pub mod Bools
