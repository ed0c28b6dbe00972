pub mod Bytes
pub mod Precisions
pub mod Plain
pub mod Steps
pub mod Spelled
