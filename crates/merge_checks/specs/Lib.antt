pub mod Clashes
pub mod Cycles
pub use Rattle.merge_changes.specs as MergeChanges
pub use Rattle.merge_join.specs as MergeJoin
