pub mod Cells
pub mod Relation
pub mod Laws
pub mod Called
pub mod Bodies
