pub mod Laws
pub mod Outcome
pub mod Promise
pub mod Records
pub mod Texts
