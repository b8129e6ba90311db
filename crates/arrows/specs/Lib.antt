pub mod Preds
pub mod Placed
