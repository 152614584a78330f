pub mod Tickets
pub mod Offices
