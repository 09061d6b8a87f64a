pub mod Entered
pub mod Finished
pub mod Framing
