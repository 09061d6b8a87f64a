pub mod Computing
pub mod Fixing
pub mod Typing
pub mod Declaring
pub mod Reading
