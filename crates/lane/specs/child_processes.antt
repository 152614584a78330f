pub mod ChildShelves
pub mod ErrorLines
pub mod ErrorTexts
pub mod MemSpawner
pub mod ProcessSpawner
pub mod Processes
pub mod Scripts
pub mod Spawners
