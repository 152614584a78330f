pub mod UpgradedRecord
pub mod UpgradeStart
pub mod UpgradeEnds
pub mod Frames
