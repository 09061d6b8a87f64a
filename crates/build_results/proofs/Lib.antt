pub mod EachOnce
pub mod Two
pub mod Placed
