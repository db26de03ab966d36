pub mod Rounds
pub mod Tabled
