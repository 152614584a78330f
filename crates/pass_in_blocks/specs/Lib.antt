pub mod BlockAnswers
pub mod ShownElements
pub mod Steps
