pub mod Upgrade
pub mod UpgradeVisit
