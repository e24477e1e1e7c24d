pub mod RowsWithCofactors
pub mod Laws
pub mod TriangularSets
