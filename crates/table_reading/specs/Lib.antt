pub mod Refusals
pub mod Cells
pub mod Columns
pub mod Groups
pub mod Rows
pub mod Steps
pub mod Documents
pub use Rattle.import_tree.specs.DocForms
pub use Rattle.import_tree.specs as ImportTree
