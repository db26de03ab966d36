pub mod Skips
pub mod Spans
