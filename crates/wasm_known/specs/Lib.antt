pub mod Known
pub mod Table
