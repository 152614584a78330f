pub mod Record
pub mod Recording
