pub mod Equality
pub mod Parts
pub mod Query
pub mod Reading
pub mod Shown
