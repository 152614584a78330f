pub mod ByKinds
pub mod lemmas
