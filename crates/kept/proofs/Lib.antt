pub mod AlignedLaws
pub mod OneListLaws
pub mod PackedLaws
