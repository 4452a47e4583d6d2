pub mod Lists
pub mod Stored
pub mod Written
pub mod Plans
pub mod Examples
