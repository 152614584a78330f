pub mod ReplayRecord
pub mod NextInput
pub mod ReplayStart
pub mod ReplayEnds
pub mod ReplayRun
