pub mod Counts
pub mod GroupPieces
pub mod PutBinaries
pub mod PutOptions
pub mod WrittenTexts
pub use Rattle.doc_spelling.proofs as DocSpelling
