pub mod Accepted
pub mod Drawing
pub mod Summing
pub mod Summaries
