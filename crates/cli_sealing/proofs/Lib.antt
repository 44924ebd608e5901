pub mod DrawnParts
pub mod HeldFiles
pub mod Sealed
pub mod HeldDocuments
