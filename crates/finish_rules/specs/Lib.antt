pub mod Remainders
pub mod Identities
pub mod Turns
pub mod Initials
pub mod Checks
pub mod Leaves
