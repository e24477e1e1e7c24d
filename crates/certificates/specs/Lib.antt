pub mod Compositions
