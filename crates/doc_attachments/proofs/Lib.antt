pub mod FirstMissing
pub mod GroupTrees
pub mod Lists
mod Positions
