pub mod Apart
pub mod InLine
pub mod Lines
pub mod Plain
pub mod Symbols
pub mod Telling
