pub mod GeneratorRows
pub mod Leads
pub mod Outcomes
pub mod Identities
pub mod TurnsLeft
pub mod Starts
pub mod EachMember
