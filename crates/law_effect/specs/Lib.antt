pub mod Effect
pub mod Laws
pub mod Bytes
