pub mod Asking
pub mod Slots
pub mod Statuses
pub mod ChildrenVerdict
pub mod LaneMeets
pub mod lemmas
