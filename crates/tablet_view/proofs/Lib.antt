pub mod Logs
pub mod Standing
pub mod Orders
pub mod OtherFiles
pub mod Scans
pub mod Parts
pub mod Inputs
pub mod RunLists
