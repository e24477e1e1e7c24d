pub mod Descent
pub mod Lengths
mod Examples
