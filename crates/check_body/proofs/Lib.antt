pub mod Variants
pub mod Whole
