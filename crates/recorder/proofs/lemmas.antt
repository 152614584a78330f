pub mod run_writer
