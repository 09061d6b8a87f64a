pub mod Marks
pub mod Walks
pub mod Defined
pub mod Reading
pub mod Stepping
