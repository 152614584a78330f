pub mod Majority
pub mod Rows
pub mod VotersState
pub mod VoteResult
