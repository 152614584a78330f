pub mod CState
pub mod Blocks
pub mod Windows
