pub mod Chained
pub mod Second
pub mod First
