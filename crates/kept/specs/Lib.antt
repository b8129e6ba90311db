pub mod Aligned
pub mod Packed
