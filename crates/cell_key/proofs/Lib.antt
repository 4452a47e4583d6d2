pub mod Spelling
pub mod RowFirst
pub mod Sorting
pub mod Numbering
pub mod Gathered
pub mod SameColumn
pub mod Runs
