pub mod Decisions
pub mod Lookups
pub mod Anew
pub mod Sets
pub mod Numbers
pub mod MapCopies
pub mod Items
pub mod Instants
