pub mod Opened
pub mod Copies
