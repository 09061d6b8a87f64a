pub mod Run
pub mod Going
pub mod Well
pub mod There
