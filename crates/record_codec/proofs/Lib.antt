pub mod Flat
pub mod Appending
pub mod Names
pub mod Made
pub mod Ends
