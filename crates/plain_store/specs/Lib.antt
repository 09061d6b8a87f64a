pub mod Contents
pub mod Characters
pub mod Blanks
pub mod Seen
