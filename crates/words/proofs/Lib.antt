pub mod Words
pub mod Markings
pub mod Zeros
