mod Cuts
mod Literal
mod EndMarks
pub mod Scratch
mod Weighing
