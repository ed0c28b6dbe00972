pub mod Commas
pub mod Edits
pub mod Firsts
pub mod Rows
pub mod Swaps
pub mod TextSets
