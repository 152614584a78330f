pub mod Run
pub mod OpenedRun
