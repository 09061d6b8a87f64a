pub mod Scope
pub mod Named
pub mod Single
pub mod CodeScope
pub mod Ends
pub mod Framed
pub mod Opened
pub mod Typing
