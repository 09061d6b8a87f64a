pub mod Named
pub mod Cells
pub mod Subranges
pub mod Fields
pub mod Headings
pub mod Made
