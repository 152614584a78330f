pub mod Text
pub mod PrintedItems
pub mod ShowEnds
