pub mod Departure
pub mod Needed
pub mod RerunFrames
pub mod FramePair
pub mod CheckVerdict
pub mod CheckRun
