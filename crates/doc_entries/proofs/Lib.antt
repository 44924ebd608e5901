mod AttachmentValues
mod EndSteps
mod EntryPuts
pub use Rattle.doc_walk.proofs as DocWalk
