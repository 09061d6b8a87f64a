pub mod Outwards
pub mod Sides
pub mod Variants
