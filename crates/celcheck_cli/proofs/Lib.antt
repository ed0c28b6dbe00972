pub mod Reports
pub mod Policies
