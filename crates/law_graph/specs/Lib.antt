pub mod Started
pub mod Defined
pub mod Outcomes
