pub mod Loads
pub mod States
pub mod Waiting
