pub mod FillTables
pub mod IdSets
pub mod ListSteps
pub mod PutRows
pub mod TreeMaps
pub mod UniteMaps
pub use Rattle.merge_core.proofs as MergeCore
