pub mod Lists
pub mod Path
pub mod Acyclic
pub mod Order
pub mod Smallest
pub mod Reach
pub mod Check
pub mod Reached
