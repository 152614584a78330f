pub mod Texts
pub mod Elements
pub mod Records
pub mod Reports
