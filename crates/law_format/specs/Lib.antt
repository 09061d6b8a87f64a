pub mod Places
pub mod Layouts
pub mod FirstFault
