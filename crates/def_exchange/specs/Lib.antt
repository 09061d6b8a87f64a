pub mod Moved
pub mod MovedTrees
