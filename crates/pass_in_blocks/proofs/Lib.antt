pub mod Adding
pub mod Places
mod Putting
pub mod Running
pub mod Shows
pub mod Sound
mod Spelled
