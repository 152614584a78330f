pub mod OpenedSlots
