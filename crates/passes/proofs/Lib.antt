pub mod Gathering
pub mod Choices
mod Groups
mod Heads
pub mod Lines
pub mod Turns
pub mod Unheard
mod Named
