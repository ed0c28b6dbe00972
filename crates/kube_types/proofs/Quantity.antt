pub mod Digits
pub mod Forms
pub mod Gaps
pub mod Lengths
pub mod Meanings
pub mod TextsOf
pub mod Wholes
pub mod Zeros
