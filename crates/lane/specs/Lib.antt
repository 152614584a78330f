pub mod Answers
pub mod Children
pub mod VerdictOrAnswer
pub mod Outcome
pub mod Promise
pub mod Watched
pub mod Words
pub mod child_processes
