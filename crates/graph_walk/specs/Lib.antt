pub mod Frames
pub mod Marks
pub mod Links
pub mod Starts
pub mod Numbering
pub mod Turned
pub mod Cycles
pub mod Waiting
