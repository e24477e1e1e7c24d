pub mod Entries
pub mod Combinations
pub mod Members
pub mod Laws
