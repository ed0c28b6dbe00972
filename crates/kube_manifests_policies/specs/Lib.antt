pub mod Bound
pub mod Reports
pub mod Refusals
pub mod Laws
pub mod Scopes
pub mod Single
pub mod Verdicts
