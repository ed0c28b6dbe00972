pub mod Table
pub mod Calls
pub mod Texts
pub mod Changed
pub mod Patterns
pub mod Server
pub mod Unsupported
pub mod Names
