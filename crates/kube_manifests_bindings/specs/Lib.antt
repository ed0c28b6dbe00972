pub mod Bindings
pub mod Constraints
pub mod Faults
pub mod Fields
pub mod Selectors
