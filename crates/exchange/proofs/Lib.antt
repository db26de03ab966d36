pub mod Apart
pub mod Answers
pub mod Parts
pub mod Marks
pub mod Groups
pub mod Numbers
pub mod Examples
