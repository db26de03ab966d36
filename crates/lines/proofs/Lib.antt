pub mod Endings
pub mod Forward
pub mod Pairs
pub mod Passing
pub mod Skips
