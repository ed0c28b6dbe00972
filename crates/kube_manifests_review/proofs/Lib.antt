pub mod Books
pub mod Steps
pub mod Items
pub mod Wrong
pub mod Seen
pub mod Gathered
pub mod Visits
pub mod Superseded
