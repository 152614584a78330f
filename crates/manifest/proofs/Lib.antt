pub mod Lengths
pub mod Steps
pub mod NeedKeys
pub mod Order
pub mod Naming
pub mod Texts
pub mod Unknowns
pub mod ByJob
