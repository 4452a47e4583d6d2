pub mod Seeking
pub mod Parted
