pub mod Sizes
pub mod Compiles
pub mod Terms
pub mod Sure
