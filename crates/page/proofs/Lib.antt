pub mod Walking
pub mod Fills
pub mod RunRows
pub mod LentSlots
pub mod CopySlots
pub mod PrintedText
