pub mod Arrow
pub mod Entries
pub mod Good
pub mod Judged
pub mod Reply
pub mod Order
pub mod Write
pub mod CCall
