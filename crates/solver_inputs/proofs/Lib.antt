mod Readings
pub mod Asks
