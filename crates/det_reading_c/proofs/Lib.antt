pub mod Numbers
pub mod Parts
pub mod Readings
pub mod Items
pub mod Samples
pub mod Elements
pub mod Written
pub mod Comparing
