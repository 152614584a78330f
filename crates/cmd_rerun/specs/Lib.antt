pub mod Rest
pub mod check_command
pub mod replay_command
pub mod rewrite
pub mod upgrade_command
