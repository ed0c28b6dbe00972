pub mod Term
pub mod FreeNames
pub mod Nodes
pub mod Words
pub mod Calls
