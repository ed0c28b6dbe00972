pub mod Judging
pub mod Writes
pub mod Alone
pub mod Definitions
pub mod Checking
pub mod Admitting
pub mod Labels
