pub mod Gives
pub mod Opening
pub mod Skips
pub mod Shows
pub mod Scans
pub mod Walks
pub mod Parts
pub mod Laws
