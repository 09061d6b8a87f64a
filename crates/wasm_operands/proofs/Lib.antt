pub mod Merely
pub mod Cells
