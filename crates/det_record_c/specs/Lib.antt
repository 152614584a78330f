pub mod Answers
pub mod Items
pub mod Puts
pub mod Parts
pub mod Runs
pub mod Statements
