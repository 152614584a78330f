pub mod Samples
pub mod Linking
pub mod Running
pub mod Ending
pub mod KnownStimulus
