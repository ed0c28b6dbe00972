pub mod Hosts
pub mod OwnText
pub mod Parsed
pub mod Queries
