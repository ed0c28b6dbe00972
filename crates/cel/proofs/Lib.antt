mod Fresh
pub mod Unread
pub mod Bound
pub mod Checks
