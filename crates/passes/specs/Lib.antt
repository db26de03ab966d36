pub mod Choosing
pub mod Entries
pub mod Steps
