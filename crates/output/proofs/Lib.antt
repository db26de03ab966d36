pub mod Building
pub mod Decimals
pub mod Fronts
