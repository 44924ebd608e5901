pub mod ChainLemmas
pub mod LaneLemmas
