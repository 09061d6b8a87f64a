pub mod Bodies
pub mod Unrefused
mod Ruled
pub mod Programs
pub mod Linked
pub mod Valid
pub mod Fitting
pub mod Same
pub mod Ranks
pub mod Alike
mod Kept
pub mod Encodings
pub mod Graphs
pub mod Readings
pub mod Unread
pub mod Named
pub mod Borrowed
pub mod Sums
mod Readable
mod Building
