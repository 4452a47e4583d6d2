pub mod Joins
pub mod Orders
pub mod Steady
pub mod UpdateEntries
