pub mod Walks
pub mod Growth
