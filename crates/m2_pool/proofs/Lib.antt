pub mod Gathering
pub mod Items
pub mod Places
pub mod Tallying
