pub mod Given
pub mod Moves
