pub mod Checks
pub mod Own
pub mod Imports
pub mod Routines
pub mod Elaborating
pub mod Inside
pub mod Bodies
pub mod Checked
