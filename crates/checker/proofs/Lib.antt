mod StandLaws
mod AnswerLaws
