pub mod Reports
pub mod Shows
pub mod Texts
pub mod Shipped
