pub mod Leading
