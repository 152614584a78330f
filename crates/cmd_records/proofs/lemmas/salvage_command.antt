pub mod Ending
pub mod SalvageMeets
