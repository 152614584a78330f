pub mod Values
pub mod Limits
pub mod Jobs
pub mod Spelling
pub mod Equal
pub mod Frames
pub mod Blocks
