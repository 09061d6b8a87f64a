pub mod Lists
pub mod Fits
pub mod Procedures
pub mod Uncut
pub mod Encoded
