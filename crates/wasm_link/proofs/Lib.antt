pub mod Fold
pub mod Same
pub mod Addressed
pub mod Constants
