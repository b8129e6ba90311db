pub mod Message
pub mod Body
pub mod Answers
pub mod Meaning
pub mod Trials
