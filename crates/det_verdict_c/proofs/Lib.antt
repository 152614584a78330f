pub mod Probes
pub mod Seen
pub mod Reported
