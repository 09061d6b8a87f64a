pub mod Trees
pub mod Comments
pub mod Members
pub mod Texts
