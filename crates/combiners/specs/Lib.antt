pub mod Gathers
pub mod CombineLaws
pub mod CombineStages
pub mod CombineParts
pub mod Joins
pub mod LongParts
pub mod ArrayParts
