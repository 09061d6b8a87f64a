pub mod Worlds
pub mod Expressions
pub mod Statements
pub mod Calls
pub mod Runs
pub mod Laws
