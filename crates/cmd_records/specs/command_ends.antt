pub mod Results
pub mod Meeting
