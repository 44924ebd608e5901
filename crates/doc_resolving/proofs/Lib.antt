mod Burials
pub mod ResolvedTrees
pub mod RisingTombs
pub mod ResolvedDocuments
mod SoundTrees
pub mod IdSets
pub mod NodeIds
