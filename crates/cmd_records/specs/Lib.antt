pub mod command_ends
pub mod compare_command
pub mod open_names
pub mod record_show
pub mod salvage_command
pub mod show_command
pub mod vote_command
pub mod voter
