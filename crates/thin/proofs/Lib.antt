pub mod Data
pub mod Args
mod Locals
mod Steps
pub mod Held
pub mod Form
mod Call
pub mod Pair
pub mod Thin
pub mod Lend
pub mod Look
pub mod Take
