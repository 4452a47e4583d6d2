pub mod TextEntries
pub mod Texts
pub mod TextAnswers
pub mod Passes
pub mod Seeks
