pub mod Lasts
pub mod Pairs
pub mod SameValues
pub mod SeenGroups
