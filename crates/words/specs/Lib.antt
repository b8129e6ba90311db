pub mod Word
pub mod Below
