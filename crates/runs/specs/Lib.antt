pub mod Run
pub mod History
pub mod Follows
pub mod Sweeps
pub mod Placed
