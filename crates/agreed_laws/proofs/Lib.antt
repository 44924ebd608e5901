pub mod Again
pub mod Heights
pub mod Merged
pub mod Parts
pub mod Runs
pub mod Shallow
pub use Rattle.document_merge.proofs.MergeChecks
