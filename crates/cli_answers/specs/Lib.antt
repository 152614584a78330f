pub mod Answers
pub mod Ends
pub mod BreaksOff
pub mod Outcome
pub mod Found
pub mod Statuses
pub mod Slots
