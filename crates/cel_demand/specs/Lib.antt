pub mod Part
pub mod Reads
pub mod Alike
pub mod Demand
pub mod Places
