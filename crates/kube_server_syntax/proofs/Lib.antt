pub mod Runs
pub mod Starts
pub mod Complete
pub mod SoFar
pub mod Sound
pub mod Beginnings
pub mod Depth
