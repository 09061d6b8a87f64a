pub mod Parts
pub mod Entering
pub mod Asked
