pub mod Quantity
pub mod Version
pub mod Url
