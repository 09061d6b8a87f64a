pub mod Sound
pub mod Ready
pub mod Traps
pub mod Ranges
