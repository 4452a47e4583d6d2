pub mod Jobs
pub mod FileValues
pub mod PartCells
pub mod Compacted
pub mod Plans
