pub mod Salvage
pub mod ReportEnds
