pub mod Landings
pub mod Pulls
