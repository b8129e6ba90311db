pub mod WordLaws
pub mod BelowLaws
