pub mod Surroundings
pub mod Operated
