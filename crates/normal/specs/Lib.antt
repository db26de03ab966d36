pub mod Literal
pub mod Runs
