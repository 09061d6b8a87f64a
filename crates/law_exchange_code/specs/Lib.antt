pub mod ByParts
pub mod Stays
