pub mod Small
pub mod Flags
