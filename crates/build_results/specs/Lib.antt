pub mod Order
pub mod Reported
pub mod Texts
pub mod Results
