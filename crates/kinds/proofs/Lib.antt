pub mod CaseLaws
pub mod KnownLaws
pub mod KindsLaws
pub mod LengthLaws
