pub mod Loads
pub mod Waiting
