pub mod Considering
