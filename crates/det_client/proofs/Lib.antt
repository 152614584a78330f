pub mod RequestLists
pub mod CallLists
pub mod OwnStreams
pub mod lemmas
