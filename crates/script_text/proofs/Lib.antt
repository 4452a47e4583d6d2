pub mod Positions
pub mod Cutting
pub mod Wording
pub mod Updating
pub mod Examples
pub mod Splitting
mod Digits
pub mod Counting
