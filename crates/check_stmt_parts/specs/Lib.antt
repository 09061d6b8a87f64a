pub mod Lists
pub mod Simple
pub mod Labels
pub mod Control
pub mod Ranges
