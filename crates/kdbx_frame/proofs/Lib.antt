pub mod HeaderSizes
mod HeaderVectors
mod HeaderVectors31
pub mod Prefixes
pub mod Required
pub mod Versions
