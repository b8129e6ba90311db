pub mod Paths
pub mod Entries
pub mod Slotted
