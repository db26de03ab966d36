pub mod Asking
pub mod Characters
pub mod Naming
