pub mod Branches
pub mod ContentPieces
pub mod Counted
pub mod Goes
pub mod Memory
pub mod Pieces
pub mod Rests
pub mod Rows
