pub mod InnerLemmas
pub mod LaneLemmas
pub mod PublishedVectors
pub mod StreamLemmas
pub mod TurnLemmas
