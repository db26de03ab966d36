pub mod Laws
pub mod Cuts
pub mod EndMarks
pub mod Literal
pub mod Steps
