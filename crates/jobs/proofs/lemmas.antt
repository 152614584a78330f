pub mod bank
pub mod cloud
pub mod guard
