pub mod Record
pub mod RunEnds
pub mod RecordRun
pub mod RunStart
pub mod run_writer
