pub mod Numbered
pub mod Counted
pub mod Sensed
pub mod Inside
