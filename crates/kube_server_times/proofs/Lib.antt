pub mod Places
pub mod Dates
