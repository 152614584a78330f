pub mod Gives
pub mod Filled
pub mod Parts
pub mod Policies
pub mod FinishedRun
