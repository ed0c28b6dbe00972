pub mod Numerals
pub mod Parts
pub mod Counts
pub mod Leading
pub mod ByLength
pub mod Known
