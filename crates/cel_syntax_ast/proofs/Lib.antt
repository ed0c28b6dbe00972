pub mod Names
pub mod Arguments
