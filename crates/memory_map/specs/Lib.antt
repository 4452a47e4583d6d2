pub mod CursorParts
pub mod MapRuns
pub mod Props
