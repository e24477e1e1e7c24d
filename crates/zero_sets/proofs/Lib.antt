pub mod TableRings
mod Examples
pub mod ValueLaws
pub mod TriangularSets
pub mod CertificateLemmas
pub mod LeadValues
pub mod PointFacts
pub mod DomainTests
pub mod PrimeFields
