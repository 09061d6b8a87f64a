pub mod Variants
pub mod Stepped
pub mod Called
pub mod Wholes
