pub mod VisibleLaws
pub mod LineLaws
pub mod ReadingLaws
pub mod WritingLaws
pub mod TrialLaws
pub mod RefusedLaws
