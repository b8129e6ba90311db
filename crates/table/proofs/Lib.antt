pub mod ShutLaws
pub mod UsedLaws
