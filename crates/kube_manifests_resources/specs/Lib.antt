pub mod Builtins
pub mod Resources
