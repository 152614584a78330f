pub mod chain
pub mod chain_command
pub mod record_command
pub mod sim_command
