pub mod Endings
pub mod Written
pub mod Inputs
