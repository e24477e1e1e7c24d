pub mod Statuses
pub mod Polynomials
pub mod Lines
pub mod Certified
pub mod Laws
pub mod Answers
