mod PartsLaws
mod AskedLaws
pub mod TrialLaws
pub mod RefusalLaws
pub mod OrderedLaws
mod RepliedLaws
pub mod NamedLaws
