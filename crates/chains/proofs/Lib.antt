pub mod Takings
pub mod MemberSteps
pub mod Changes
pub mod MonicTests
pub mod Additions
