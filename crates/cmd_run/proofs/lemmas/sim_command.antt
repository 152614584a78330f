pub mod Whole
pub mod Running
pub mod Simulated
