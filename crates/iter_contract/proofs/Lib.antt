pub mod Elements
pub mod Ends
pub mod FirstTops
pub mod Following
pub mod Moves
pub mod Partition
pub mod SoughtSums
