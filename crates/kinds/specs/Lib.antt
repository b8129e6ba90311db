pub mod Kinds
pub mod Lengths
