pub mod Tries
