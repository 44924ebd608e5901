pub mod Levels
pub mod Merges
pub mod Runs
pub use Rattle.document_merge.specs as DocumentMerge
pub use Rattle.document_merge.specs.MergeChecks
