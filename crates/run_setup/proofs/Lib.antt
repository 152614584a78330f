pub mod Ending
pub mod Keeping
pub mod Meeting
mod Reading
pub mod lemmas
