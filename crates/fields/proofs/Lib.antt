pub mod Ends
mod Folds
pub mod Heads
mod Naming
mod Nears
pub mod Reading
mod Rows
pub mod Sorts
