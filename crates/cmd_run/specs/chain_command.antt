pub mod Chain
pub mod Clients
