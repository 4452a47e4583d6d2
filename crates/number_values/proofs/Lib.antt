pub mod Decimals
pub mod Joining
pub mod ArrayParts
pub mod ArrayLoops
pub mod ArrayTexts
pub mod ArrayLaws
