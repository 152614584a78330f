pub mod Items
pub mod Giving
pub mod Running
pub mod Ending
pub mod KnownRecord
