pub mod Alike
pub mod NewLevels
pub mod Steps
pub mod Past
pub mod Runs
pub mod Taken
