mod Examples
pub mod Parts
pub mod FirstRemainders
pub mod EmittedLeaves
pub mod StepsLoseNoZero
pub mod LawfulNonzero
pub mod Roots
pub mod SmallTasks
pub mod StepsKeepLaw
pub mod AnswersOfSystems
