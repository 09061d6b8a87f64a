pub mod Starting
pub mod Sizing
pub mod Seeing
pub mod Agreeing
pub mod Programs
pub mod Judging
pub mod Faulting
pub mod Naming
