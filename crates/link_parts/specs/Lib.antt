pub mod Sums
pub mod Stands
pub mod Fitting
pub mod Held
pub mod Linked
