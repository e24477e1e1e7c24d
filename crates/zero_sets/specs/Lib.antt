pub mod Domains
pub mod Residues
pub mod ZeroSets
pub mod Certificates
pub mod Tasks
pub mod Systems
pub mod Laws
