pub mod Modules
pub mod Premises
pub mod Laws
