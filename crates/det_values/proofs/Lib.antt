mod FlatReading
mod Fronts
pub mod Same
mod Walking
mod Filling
mod Undrawing
mod Blocking
mod Growing
mod Joining
pub mod Equality
