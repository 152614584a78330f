pub mod Steady
pub mod SteadyFields
pub mod Leads
pub mod lemmas
