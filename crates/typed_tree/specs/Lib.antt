pub mod Names
pub mod Types
pub mod Known
pub mod Chains
