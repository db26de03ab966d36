pub mod Exchange
pub mod Examples
