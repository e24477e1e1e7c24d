pub mod Ranges
pub mod Statuses
pub mod Answered
pub mod Made
pub mod Solved
pub mod Printable
pub mod Usages
pub mod Asked
