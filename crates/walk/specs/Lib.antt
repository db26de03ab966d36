pub mod Texts
pub mod Weights
