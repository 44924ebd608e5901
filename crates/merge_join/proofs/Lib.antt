pub mod KnownIds
pub mod NotEmpty
pub use Rattle.merge_parts.proofs as MergeParts
