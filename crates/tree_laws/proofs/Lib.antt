mod Examples
pub mod Some
pub mod Joined
pub mod Cover
pub mod Emitted
pub mod Steps
