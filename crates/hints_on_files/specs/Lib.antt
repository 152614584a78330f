pub mod Copies
pub mod Kinds
pub mod Parameters
