pub mod Passes
pub mod Rule
pub mod Views
pub mod Desks
pub mod Dealt
pub mod Fourfold
