pub mod Lists
pub mod PowersWithin
pub mod Entries
pub mod RowParts
pub mod TurnsWithin
pub mod ChainTurns
pub mod PlainRows
pub mod CombinationResults
