pub mod Blanks
pub mod Lawful
pub mod Monotone
pub mod Steps
