pub mod Saying
pub mod FileReads
pub mod Missing
mod Running
mod Words
