pub mod BlindCommands
pub mod BlindSearch
pub mod BlindShow
pub mod Examples
pub mod MaskedTrees
pub mod Screens
