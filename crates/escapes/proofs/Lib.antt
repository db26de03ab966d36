pub mod Forms
pub mod Sorts
pub mod Writes
