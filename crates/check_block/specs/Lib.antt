pub mod Nesting
pub mod Naming
pub mod Agreeing
pub mod Headings
pub mod Declarations
pub mod Inner
