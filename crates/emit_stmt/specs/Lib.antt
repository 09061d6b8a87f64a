pub mod Plans
pub mod Written
