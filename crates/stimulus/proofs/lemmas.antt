pub mod slot_reader
