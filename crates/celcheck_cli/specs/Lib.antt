pub mod Words
pub mod Runs
pub mod Policies
pub mod Reports
pub mod Linted
