pub mod Held
pub mod Needed
pub mod StandsFor
pub mod Steps
pub mod Fronts
pub mod Comparison
