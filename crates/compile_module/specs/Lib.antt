pub mod Stands
pub mod Told
pub mod Alone
