pub mod Parts
pub mod Folds
pub mod Compactions
pub mod Early
pub mod Marked
pub mod Restrictions
pub mod Whole
pub mod Partial
pub mod Kept
pub mod InFront
pub mod StoreTimes
pub mod Storable
pub mod LetIn
pub mod FileLists
pub mod StoreSums
pub mod Jobs
pub mod JobsStay
pub mod Standing
pub mod StandingJobs
pub mod StandingSteps
mod NeededAcceptance
mod NeededPremises
