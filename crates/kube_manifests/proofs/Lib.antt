pub mod Choices
pub mod Counted
pub mod Formed
pub mod Found
pub mod Judged
pub mod Orders
