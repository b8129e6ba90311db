pub mod MeaningLaws
pub mod RoundLaws
