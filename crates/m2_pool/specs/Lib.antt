pub mod Results
pub mod Settled
pub mod Tallied
