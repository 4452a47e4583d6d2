pub mod Draws
pub mod Mutations
pub mod Configuration
pub mod Totals
pub mod Scanned
pub mod Summary
pub mod SummaryParts
