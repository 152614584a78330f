pub mod OutputSamples
pub mod SecondClient
pub mod ChainEnds
pub mod ChainCycle
pub mod ChainStart
