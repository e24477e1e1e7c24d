pub mod Signs
pub mod Pairs
pub mod Falling
pub mod Values
pub mod Boxes
pub mod Keys
pub mod Tails
