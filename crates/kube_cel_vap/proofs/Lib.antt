pub mod Entries
pub mod Equals
pub mod Bound
pub mod Compiled
pub mod Listed
pub mod Results
