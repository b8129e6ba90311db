pub mod SlotLaws
pub mod AnswerLaws
pub mod SlottedLaws
mod ClosureLaws
mod CycleLaws
mod FoundLaws
