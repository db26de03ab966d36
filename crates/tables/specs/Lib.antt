pub mod Tables
