mod Cells
mod Cuts
mod Lines
