pub mod Documents
pub mod Entries
pub mod Groups
pub mod Metas
pub mod Moments
pub mod Pieces
pub mod Pool
pub mod Ranges
pub mod Values
pub mod ResolvedParts
pub use Rattle.doc_forms.specs as DocForms
