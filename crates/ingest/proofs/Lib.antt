pub mod Finding
pub mod Checking
