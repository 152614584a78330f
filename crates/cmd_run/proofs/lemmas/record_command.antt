pub mod Recorded
pub mod ByManifest
