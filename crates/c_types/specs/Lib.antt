pub mod CValues
pub mod Ranges
pub mod Elements
pub mod Places
pub mod RecordFaults
pub mod ManifestFaults
