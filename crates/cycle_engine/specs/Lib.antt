pub mod Elements
pub mod Frames
pub mod Engine
pub mod PhaseResults
