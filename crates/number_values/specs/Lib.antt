pub mod Numbers
pub mod Arrays
pub mod Values
