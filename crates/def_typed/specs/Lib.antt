pub mod Named
pub mod Coded
pub mod Expressions
pub mod Statements
pub mod Numbers
pub mod Blocks
pub mod Bodies
pub mod Modules
