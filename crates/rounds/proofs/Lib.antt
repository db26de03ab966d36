mod Overs
pub mod Rounding
