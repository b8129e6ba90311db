pub mod Scan
pub mod Row
