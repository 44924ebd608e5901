pub mod Codes
pub mod Conflicts
pub mod Lines
pub mod PathTables
pub mod Paths
pub use Rattle.doc_spelling.specs as DocSpelling
