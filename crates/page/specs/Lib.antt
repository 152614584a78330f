pub mod Walks
pub mod Rows
pub mod Cells
pub mod Differences
pub mod Shelves
pub mod Answers
