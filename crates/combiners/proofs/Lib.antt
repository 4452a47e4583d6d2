pub mod Firsts
pub mod OfColumns
pub mod Passes
pub mod Streams
