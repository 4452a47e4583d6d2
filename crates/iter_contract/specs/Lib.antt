pub mod Copies
pub mod Following
pub mod VecRest
pub mod Props
pub mod Several
pub mod Ends
