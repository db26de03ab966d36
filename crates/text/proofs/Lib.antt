pub mod Seeks
pub mod Steps
pub mod Marked
pub mod Comparing
pub mod Trims
