pub mod Many
pub mod Printing
pub mod Answers
pub mod Early
