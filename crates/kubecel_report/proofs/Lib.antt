pub mod Counted
pub mod Escaped
pub mod Seen
pub mod Statuses
pub mod Summed
pub mod Writes
