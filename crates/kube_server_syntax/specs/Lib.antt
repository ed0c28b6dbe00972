pub mod Tree
pub mod Placed
pub mod Grammar
pub mod Machine
pub mod Depth
