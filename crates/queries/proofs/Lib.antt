mod AnswerLaws
pub mod SaidLaws
