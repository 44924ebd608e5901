pub mod Buried
pub mod Deleted
pub mod LastGroups
pub mod NewBins
pub mod Burials
pub mod GroupBins
pub mod GroupsDeleted
pub mod GroupsRecycled
pub mod ManyTombs
pub mod SortedTombs
pub use Rattle.tree_moves.proofs as TreeMoves
