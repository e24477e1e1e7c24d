pub mod Posts
pub mod Passes
pub mod Rule
pub mod Views
pub mod Twins
