pub mod Judging
pub mod Known
pub mod Again
pub mod Exact
