pub mod Frame
pub mod Stream
pub mod Answer
pub mod Trials
