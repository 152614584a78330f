pub mod Growing
pub mod Framing
pub mod Parting
