pub mod VoteMeets
pub mod Breaking
