pub mod Statements
pub mod Copies
pub mod Checks
pub mod Votes
pub mod Chains
pub mod Salvages
pub mod Sums
