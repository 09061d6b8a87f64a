pub mod Borrowed
pub mod Jobs
pub mod Reading
pub mod Own
pub mod Compiling
