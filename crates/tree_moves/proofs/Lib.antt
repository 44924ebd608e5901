pub mod AfterMove
pub mod KeptPlaces
pub mod Placed
pub mod Taken
pub mod AfterGroupMove
pub mod GroupChildren
pub mod GroupParents
pub mod GroupsMoved
pub mod GroupsTaken
pub use Rattle.tree_groups.proofs as TreeGroups
