pub mod Fields
pub mod Names
pub mod Near
