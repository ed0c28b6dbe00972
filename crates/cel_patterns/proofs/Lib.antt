pub mod Books
pub mod Entries
mod Answered
mod SpanLemmas
