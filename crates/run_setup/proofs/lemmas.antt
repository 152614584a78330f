pub mod recorded_run
