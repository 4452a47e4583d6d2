pub mod Firsts
pub mod Documents
pub mod Searches
pub mod IntersectLaws
pub mod IntersectStages
pub mod IntersectParts
