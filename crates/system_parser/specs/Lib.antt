pub mod Tokens
pub mod Numbers
pub mod Powers
pub mod Readings
pub mod Sums
pub mod Systems
pub mod Made
