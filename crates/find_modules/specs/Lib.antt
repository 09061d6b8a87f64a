pub mod Imports
pub mod Found
