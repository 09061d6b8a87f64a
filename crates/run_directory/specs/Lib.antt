pub mod Directory
pub mod Reported
