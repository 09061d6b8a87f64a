pub mod Functions
pub mod Joined
pub mod Texts
