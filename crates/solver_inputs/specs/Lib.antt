pub mod Readings
pub mod Asks
