pub mod Ends
pub mod Finishing
pub mod Tails
