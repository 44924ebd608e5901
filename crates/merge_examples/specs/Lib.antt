pub mod Cases
pub mod Deletions
pub use Rattle.run_laws.specs.AgreedLaws
pub use Rattle.run_laws.specs.DocumentMerge
pub use Rattle.run_laws.specs.MergeChecks
pub use Rattle.run_laws.specs as RunLaws
