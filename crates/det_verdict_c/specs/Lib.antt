pub mod Answers
pub mod Places
pub mod ManifestLines
pub mod Reports
