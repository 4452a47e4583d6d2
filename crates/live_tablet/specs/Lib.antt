pub mod Rules
pub mod States
pub mod Scans
pub mod Scanners
pub mod Runs
pub mod Reading
