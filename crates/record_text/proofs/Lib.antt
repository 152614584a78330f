pub mod Appending
mod Digits
mod Fronts
mod Numbering
mod Viewed
