pub mod Desk
pub mod Asked
pub mod Trials
