pub mod Items
pub mod Lines
pub mod Escapes
pub mod Json
pub mod Output
pub mod Safe
pub mod Summary
