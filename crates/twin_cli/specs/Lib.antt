pub mod Answers
pub mod FoundVerdict
pub mod Outcome
pub mod Promise
pub mod TextInputs
pub mod Words
