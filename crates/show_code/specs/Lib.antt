pub mod Instructions
pub mod Modules
pub mod Pages
