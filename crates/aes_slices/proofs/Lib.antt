pub mod BitLemmas
pub mod CircuitLanes
pub mod SliceLemmas
pub mod PackingLemmas
