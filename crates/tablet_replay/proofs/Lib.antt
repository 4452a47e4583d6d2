mod Examples
mod Packs
pub mod OpenSessions
pub mod Firsts
pub mod Headlines
pub mod Replaying
pub mod Scripts
pub mod Sends
