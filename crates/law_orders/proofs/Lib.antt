pub mod Renumbered
pub mod Behaving
pub mod Linking
pub mod Marks
pub mod Orders
