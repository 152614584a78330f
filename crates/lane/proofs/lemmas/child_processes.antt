pub mod ErrorLines
pub mod OpaqueState
pub mod Reading
pub mod Scripted
