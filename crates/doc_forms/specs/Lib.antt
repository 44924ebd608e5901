pub mod Attachments
pub mod Children
pub mod Documents
pub mod ElementTexts
pub mod Entries
pub mod Groups
pub mod Ids
pub mod KeptParts
pub mod Metas
pub mod Refusals
pub mod SeenDocuments
pub mod SeenDrafts
pub mod SeenTexts
pub mod Tables
pub mod Values
pub use Rattle.text_forms.specs.MarkupGrammar
pub use Rattle.stream_core.specs as StreamCore
pub use Rattle.text_forms.specs as TextForms
