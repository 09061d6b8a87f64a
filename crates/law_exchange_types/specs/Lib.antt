pub mod Pieces
pub mod Scopes
pub mod Constants
pub mod Trees
pub mod Values
pub mod Types
pub mod Laws
