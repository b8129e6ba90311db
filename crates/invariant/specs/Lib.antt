pub mod Sound
pub mod Orderly
pub mod Invariant
pub mod Noted
