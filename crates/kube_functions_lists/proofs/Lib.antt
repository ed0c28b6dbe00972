pub mod Lent
pub mod Distinct
pub mod Stable
pub mod Classes
pub mod Occurrences
pub mod ByKey
pub mod Hashed
pub mod InOrder
