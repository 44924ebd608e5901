mod Appended
mod HashedMoves
pub mod HashedPieces
mod Pieces
