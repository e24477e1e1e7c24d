pub mod VariableBases
pub mod Runs
pub mod Spellings
pub mod RaisedMonomials
pub mod TermPowers
pub mod PowerSteps
pub mod ResiduePowers
pub mod SignedTerms
pub mod TextLines
pub mod NamePlaces
pub mod DigitValues
pub mod SkippedLines
pub mod NewNames
pub mod OtherPrimes
pub mod MoreInputs
pub mod AcceptedTexts
mod MadeSystems
mod Examples
