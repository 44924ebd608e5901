pub mod GroupSteps
pub use Rattle.doc_entries.specs.DocWalk
