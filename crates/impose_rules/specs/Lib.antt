pub mod Factors
pub mod Leads
pub mod Chains
pub mod Impose
pub mod Laws
