pub mod Replaced
pub mod Numbered
pub mod Needing
pub mod Resulting
