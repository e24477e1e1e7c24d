mod Examples
pub mod Powers
pub mod CoefficientLists
pub mod ListPolynomials
pub mod Tails
