pub mod WellFormed
pub mod Valid
pub mod Linked
pub mod Ranges
pub mod There
