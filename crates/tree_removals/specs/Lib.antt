pub mod Removes
pub mod Tombs
pub use Rattle.tree_moves.specs as TreeMoves
