pub mod Limits
pub mod Code
pub mod Format
pub mod Validity
pub mod Numbers
pub mod Machine
pub mod Linking
