pub mod Next
pub mod Picks
