pub mod LenientTexts
pub mod Order
pub mod OrderLaws
pub mod Reading
pub mod Shown
