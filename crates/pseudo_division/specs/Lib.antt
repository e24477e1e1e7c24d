pub mod FieldOperations
pub mod Combinations
