pub mod Meeting
pub mod OneRecord
