pub mod Op
pub mod Code
pub mod Size
pub mod CodeViews
