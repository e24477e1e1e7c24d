mod Examples
mod RowExamples
pub mod Lists
pub mod ChainParts
pub mod ChangedMembers
pub mod LeadPlaces
pub mod CaseNumbers
