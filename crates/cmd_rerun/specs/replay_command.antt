pub mod Replay
pub mod ReplayVisit
