pub mod GroupRecords
pub mod Written
pub use Rattle.doc_spelling.specs.DocForms
pub use Rattle.doc_spelling.specs as DocSpelling
