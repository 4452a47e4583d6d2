pub mod Rules
pub mod Bounds
pub mod Scans
pub mod Scanners
pub mod Sending
pub mod Runs
