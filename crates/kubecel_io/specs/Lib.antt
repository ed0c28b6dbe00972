pub mod Repeats
pub mod Documents
pub mod Reads
pub mod Objects
pub mod Subjects
pub mod Index
pub mod Faults
pub mod Stops
