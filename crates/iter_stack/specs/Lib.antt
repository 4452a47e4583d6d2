pub mod Usages
pub mod Fours
pub mod DropStages
pub mod LevelStages
pub mod Levels
pub mod Stacks
pub mod Places
