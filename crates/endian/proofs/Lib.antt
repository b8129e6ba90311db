pub mod BytesLaws
pub mod BelowLaws
pub mod PlacesLaws
pub mod LaidLaws
pub mod PartLaws
pub mod WordsLaws
