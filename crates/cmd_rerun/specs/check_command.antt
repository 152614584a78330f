pub mod Check
pub mod CheckVisit
