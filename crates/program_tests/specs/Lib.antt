pub mod NoRoom
