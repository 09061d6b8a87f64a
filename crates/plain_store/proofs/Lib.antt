pub mod Layers
pub mod Spreads
pub mod Puts
pub mod Stores
pub mod Threads
pub mod Fields
pub mod Fresh
