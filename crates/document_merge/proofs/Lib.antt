pub mod MergedDocs
pub use Rattle.merge_checks.proofs as MergeChecks
