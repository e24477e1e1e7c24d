pub mod Triangular
pub mod HeadFacts
pub mod Lists
pub mod CaseNumbers
pub mod CaseChildren
pub mod RowChildren
pub mod Covering
pub mod TaskParts
