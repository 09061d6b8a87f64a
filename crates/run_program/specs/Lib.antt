pub mod Cut
pub mod Faults
pub mod Loading
pub mod Reading
pub mod Runs
pub mod Saved
pub mod Whole
