pub mod GroupMoves
pub mod GroupParts
pub mod GroupRemovals
pub mod GroupRows
