mod Examples
pub mod DownSteps
pub mod GeneratorLists
pub mod CofactorRows
pub mod LeadPoints
pub mod ReducedCofactors
pub mod ZeroRows
pub mod SetZeros
pub mod LastRows
