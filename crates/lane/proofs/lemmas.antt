pub mod child_processes
