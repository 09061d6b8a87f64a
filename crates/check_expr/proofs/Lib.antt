pub mod Layers
pub mod Variants
