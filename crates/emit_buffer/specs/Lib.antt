pub mod Cut
pub mod Drafts
pub mod Fitting
pub mod Frames
pub mod Helpers
pub mod Homes
pub mod Kinds
pub mod Slots
