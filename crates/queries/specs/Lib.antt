pub mod Said
pub mod Queries
