pub mod Steps
pub mod Marking
pub mod Predeclared
pub mod Importing
pub mod Declare
pub mod Again
pub mod Export
pub mod Compiled
