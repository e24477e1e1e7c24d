pub mod Solver
pub mod Ranges
pub mod Solved
pub mod Limits
pub mod Asked
pub mod Laws
