pub mod Putting
pub mod Written
pub mod Whole
pub mod Fields
pub mod Running
