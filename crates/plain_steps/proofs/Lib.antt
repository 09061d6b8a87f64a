pub mod Entries
pub mod Asking
pub mod Begins
pub mod Steppings
pub mod Bodies
