pub mod Layout
pub mod Part
pub mod Objects
