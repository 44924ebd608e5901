pub mod Deletions
pub mod Merged
pub mod Settled
pub use Rattle.run_laws.proofs.AgreedLaws
