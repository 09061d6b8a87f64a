pub mod Reported
pub mod Instances
pub mod Ends
pub mod Safe
pub mod Quick
