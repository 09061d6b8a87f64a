pub mod Steps
pub mod Moving
pub mod Laws
pub mod InTurn
