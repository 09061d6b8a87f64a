pub mod One
pub mod Typed
