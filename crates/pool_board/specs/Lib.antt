pub mod Graph
pub mod Laws
pub mod Lists
pub mod Refusal
pub mod Rule
pub mod Seats
pub mod Steps
pub mod Results
