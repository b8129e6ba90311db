pub mod Writing
pub mod Meaning
