pub mod Lists
pub mod Rolled
pub mod Fusion
pub mod Numbers
pub mod Lookups
pub mod Shaped
pub mod StmtFusion
mod Texted
pub mod Stored
mod Signing
mod Pieces
mod ExprSeen
mod Casing
mod StmtSeen
mod Addressed
mod Functioned
pub mod Emitting
pub mod Variants
