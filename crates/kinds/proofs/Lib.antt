pub mod Answering
pub mod Fronts
pub mod Idle
mod Kinding
pub mod Values
