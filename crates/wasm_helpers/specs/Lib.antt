pub mod Codes
pub mod Operations
