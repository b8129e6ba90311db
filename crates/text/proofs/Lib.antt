pub mod SpacedLaws
pub mod StoreLaws
