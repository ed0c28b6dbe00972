pub mod Explained
pub mod FirstDoubles
pub mod Held
pub mod HeldFiles
pub mod Nested
pub mod Sets
