pub mod Branches
pub mod Notes
pub mod Advances
pub mod Moves
pub mod Samples
