pub mod Inputs
pub mod Names
pub mod Requests
pub mod Unstructured
pub mod Uses
