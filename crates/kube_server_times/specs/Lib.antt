pub mod Limits
pub mod Zones
pub mod Fields
pub mod Spans
pub mod Texts
pub mod Conversions
