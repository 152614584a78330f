pub mod Order
pub mod Genuine
pub mod Formats
pub mod Records
pub mod Going
pub mod Ending
