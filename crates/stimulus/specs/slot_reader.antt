pub mod StandsFor
pub mod Steps
