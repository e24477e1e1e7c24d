pub mod Cases
pub mod Heads
pub mod Children
pub mod Covers
