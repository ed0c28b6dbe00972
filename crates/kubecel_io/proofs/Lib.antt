pub mod Cuts
pub mod Deep
pub mod Distinct
pub mod Files
pub mod Indexed
pub mod Lists
pub mod Marks
pub mod Writes
