pub mod AnsweredLaws
pub mod KeptLaws
pub mod Proved1
pub mod ProvedUnique
pub mod Proved2
pub mod Proved3
pub mod ProvedNumbers
