pub mod Last
pub mod Placing
pub mod Found
pub mod Ready
pub mod Groups
pub mod Opened
pub mod Fronts
