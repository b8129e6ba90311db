pub mod Lines
pub mod Turn
pub mod Pieces
pub mod Struct
