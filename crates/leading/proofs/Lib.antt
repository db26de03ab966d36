pub mod Fronts
pub mod Leaders
mod Rules
