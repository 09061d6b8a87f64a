pub mod Closing
pub mod Spans
pub mod Points
pub mod Apart
