pub mod Texts
pub mod Forms
pub mod Made
pub mod Kinds
pub mod Calls
pub mod Translation
