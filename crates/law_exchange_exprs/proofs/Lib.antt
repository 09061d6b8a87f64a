pub mod Steps
pub mod Effects
pub mod Calls
pub mod Done
pub mod Knot
pub mod Given
pub mod Operated
pub mod Stepwise
