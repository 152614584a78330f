pub mod Keeping
pub mod AnswerMeets
pub mod KnownBytes
pub mod FoundMeets
