pub mod Merges
pub mod Stops
pub mod Told
pub use Rattle.merge_again.proofs.AgreedLaws
pub use Rattle.merge_again.proofs as MergeAgain
