pub mod Meaning
pub mod Laws
pub mod Pass
pub mod Passes
pub mod Cycle
pub mod event_cache
