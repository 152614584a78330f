pub mod checker
pub mod replayer
pub mod upgrader
