pub mod Right
pub mod Decoded
pub mod Cut
pub mod Built
mod Saved
