pub mod Names
pub mod Ids
pub mod SeenNames
pub mod Counts
