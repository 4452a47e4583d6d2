pub mod TopOrder
pub mod Shuffles
pub mod HeapTops
