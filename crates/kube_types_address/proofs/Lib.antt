pub mod Cuts
pub mod Matches
pub mod Numbers
pub mod Printing
pub mod Readings
pub mod Sets
pub mod OfTexts
