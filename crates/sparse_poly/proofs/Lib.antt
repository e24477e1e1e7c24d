pub mod Moduli
pub mod Sums
pub mod Collecting
pub mod Products
pub mod SortedTerms
pub mod Places
pub mod MergeTurns
pub mod JoinTurns
pub mod Passes
pub mod FittingPairs
pub mod FirstVariables
pub mod ValueClauses
pub mod FirstItems
mod PowerMonomials
pub mod Leads
pub mod BoxPlaces
pub mod Slots
pub mod BoxTurns
pub mod BoxMonomials
pub mod BoxRows
pub mod BoxSums
mod Copies
pub mod MultipleTurns
pub mod LeadEnds
pub mod TailFits
pub mod OnePass
pub mod TailBounds
pub mod KeyTurns
