pub mod Crossing
pub mod CrossingModules
pub mod Rounds
pub mod Once
pub mod All
pub mod InTurn
pub mod Named
