pub mod Reaching
pub mod Plain
pub mod Ways
pub mod Follows
pub mod Steps
pub mod Whole
pub mod Bytes
