pub mod Seen
pub mod Numbered
pub mod Marked
pub mod Needed
pub mod Tables
pub mod Written
pub mod Offsets
