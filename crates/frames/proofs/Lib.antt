pub mod FrameLaws
pub mod MoreLaws
pub mod StreamLaws
pub mod AnswerLaws
pub mod TrialLaws
