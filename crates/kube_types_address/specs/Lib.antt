pub mod Addresses
pub mod CidrTexts
pub mod Kinds
pub mod Matching
pub mod Networks
pub mod Prefixes
pub mod Shown
pub mod Texts
