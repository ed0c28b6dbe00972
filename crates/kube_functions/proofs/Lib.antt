pub mod Alike
pub mod Dotted
pub mod Forms
pub mod Kept
pub mod UnderBooks
