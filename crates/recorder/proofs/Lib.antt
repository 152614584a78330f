pub mod Running
pub mod Ending
pub mod KnownText
pub mod lemmas
