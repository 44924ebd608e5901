pub mod AttachmentTexts
pub mod EntrySteps
pub mod SeenBuilders
pub use Rattle.doc_walk.specs as DocWalk
