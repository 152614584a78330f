pub mod Lists
pub mod Needed
pub mod Passing
pub mod Unshort
pub mod Reading
pub mod Stepping
pub mod Matching
pub mod Liking
