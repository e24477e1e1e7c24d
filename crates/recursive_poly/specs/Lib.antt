pub mod Recursive
pub mod Laws
