pub mod Setup
pub mod recorded_run
