pub mod Generators
pub mod AllRows
pub mod Ends
pub mod Outcomes
pub mod Turns
pub mod Shape
pub mod Cofactors
