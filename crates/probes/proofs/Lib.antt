pub mod Joining
pub mod Lengths
pub mod Lives
pub mod Shown
pub mod Partly
pub mod Seeing
