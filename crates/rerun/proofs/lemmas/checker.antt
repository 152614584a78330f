pub mod Departing
pub mod Records
pub mod Spellings
pub mod Running
pub mod Ending
