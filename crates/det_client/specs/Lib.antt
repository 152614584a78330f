pub mod State
pub mod Life
pub mod Step
pub mod Calls
pub mod element_random
