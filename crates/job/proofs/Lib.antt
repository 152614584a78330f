pub mod Sizes
mod Putting
pub mod lemmas
