pub mod Keys
pub mod Lenient
pub mod Texts
pub mod TextsOf
