pub mod Ending
pub mod Resting
pub mod Beginning
pub mod Items
pub mod Telling
