pub mod Cursoring
pub mod Plain
pub mod Wrapped
