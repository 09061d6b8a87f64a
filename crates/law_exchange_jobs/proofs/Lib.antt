pub mod Extending
pub mod Matching
pub mod Jobbing
pub mod Twins
pub mod Moving
pub mod Coming
