pub mod Meaning
pub mod Premises
pub mod Port
