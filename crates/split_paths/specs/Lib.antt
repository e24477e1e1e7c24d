pub mod Paths
pub mod Places
pub mod Lawful
pub mod Tree
pub mod Walk
pub mod Answer
pub mod Key
pub mod Laws
