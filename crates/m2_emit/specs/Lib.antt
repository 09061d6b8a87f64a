pub mod Emitted
pub mod OwnImports
