mod Leading
mod Cells
mod Fits
mod Parts
mod Opened
mod Exprs
mod Values
mod Cases
mod Steps
mod Statements
pub mod Numbers
pub mod Own
pub mod Functions
mod Names
pub mod LinkModule
pub mod Modules
pub mod Stores
pub mod Links
pub mod Placed
pub mod Known
