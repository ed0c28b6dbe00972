pub mod Parts
pub mod Results
pub mod Macros
pub mod Named
pub mod Read
pub mod Views
pub mod Sets
