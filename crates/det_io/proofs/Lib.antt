pub mod Counts
pub mod Prefixes
pub mod SlotReads
pub mod Opening
pub mod Growth
pub mod Answered
pub mod Items
mod Places
pub mod lemmas
