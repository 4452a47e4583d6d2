pub mod Parting
pub mod Providing
pub mod SwitchParts
