pub mod TwinMeets
pub mod Sourcing
pub mod Finding
