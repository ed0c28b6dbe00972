pub mod Results
pub mod Decisions
pub mod Trees
pub mod Books
pub mod Rows
pub mod Functions
pub mod Passes
pub mod Judgements
