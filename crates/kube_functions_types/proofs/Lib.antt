pub mod Amounts
pub mod Named
pub mod Sorted
pub mod Queries
pub mod Pushed
