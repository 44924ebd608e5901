mod Vectors
pub mod Rounds
pub mod Hashing
pub mod Registers
pub mod LongHash
pub mod Limits
pub mod Mixing
pub mod Times
pub mod EarlierPlaces
pub mod Holding
pub mod LastBlocks
pub mod BlockLemmas
pub mod PairLemmas
pub mod TurnLemmas
