pub mod Ranges
pub mod Instants
pub mod Digits
pub mod DurationTexts
pub mod Fronts
pub mod TimestampTexts
pub mod TimestampFronts
pub mod TextFunctions
