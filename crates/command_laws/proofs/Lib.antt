pub mod Additions
pub mod Commands
pub mod Edits
pub mod ShownTrees
