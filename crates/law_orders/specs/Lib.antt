pub mod Renumbered
pub mod Order
pub mod Orders
