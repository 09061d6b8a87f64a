pub mod Reading
pub mod Lengths
pub mod Joining
