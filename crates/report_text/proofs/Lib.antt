pub mod PowerTurns
pub mod Terms
pub mod ChainTurns
pub mod Tokens
pub mod Trees
pub mod PowerValues
pub mod NamePlaces
pub mod TreeValues
pub mod TreeLimits
pub mod Spelling
pub mod NonzeroLines
mod CertificateLines
