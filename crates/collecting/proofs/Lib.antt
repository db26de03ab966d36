pub mod Reading
pub mod Rounds
