pub mod Lines
pub mod JsonLines
pub mod Parts
pub mod Formats
pub mod Gone
pub mod Taken
pub mod Answering
