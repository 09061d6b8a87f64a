pub mod Around
pub mod Kept
