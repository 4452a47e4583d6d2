pub mod ModelSteps
pub mod Texts
