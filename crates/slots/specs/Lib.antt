pub mod Gate
