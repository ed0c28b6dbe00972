pub mod Sizes
pub mod Strings
pub mod Conversions
pub mod Optionals
pub mod Extremes
pub mod Table
pub mod Standard
pub mod Names
