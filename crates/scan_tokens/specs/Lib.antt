pub mod Bytes
pub mod Division
pub mod FaultNumber
pub mod Forms
pub mod Numbers
pub mod Steps
pub mod Symbols
