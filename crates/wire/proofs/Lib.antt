pub mod BodyLaws
pub mod AnswerLaws
pub mod RequestLaws
pub mod MeaningLaws
pub mod TrialLaws
