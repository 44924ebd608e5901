pub mod Attributes
pub mod Chunks
pub mod Sinks
pub mod States
pub mod StreamOffsets
pub mod Gathering
pub mod Pairs
