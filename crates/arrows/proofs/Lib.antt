pub mod PastLaws
pub mod PredsLaws
pub mod PlacedLaws
