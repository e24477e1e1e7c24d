pub mod NonzeroLeads
pub mod NewLeads
