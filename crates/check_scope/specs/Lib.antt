pub mod Elaborated
pub mod Scopes
pub mod Inwards
