pub mod Before
pub mod Written
