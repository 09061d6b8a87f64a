pub mod Addressed
pub mod Stepped
pub mod Cased
pub mod Planned
