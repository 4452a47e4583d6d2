pub mod Heaps
pub mod MergeParts
