pub mod State
pub mod Jobs
pub mod CoreLaws
pub mod Status
pub mod Turns
