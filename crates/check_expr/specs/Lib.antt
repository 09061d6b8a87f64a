pub mod Meanings
pub mod Effects
