pub mod After
pub mod Evaluated
pub mod Turns
pub mod Done
pub mod Ran
pub mod Alone
