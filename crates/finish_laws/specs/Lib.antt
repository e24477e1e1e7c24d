pub mod Identities
pub mod Lawful
pub mod Laws
