mod Fields
mod Looping
mod Reports
mod Viewed
