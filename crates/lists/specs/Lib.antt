pub mod Ascending
pub mod Choice
pub mod Each
pub mod Lists
pub mod Occurs
