pub mod Faults
pub mod States
pub mod Transfers
pub mod Commands
pub mod Texts
