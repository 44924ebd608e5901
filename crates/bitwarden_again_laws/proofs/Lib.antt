pub mod Exports
pub mod Replacing
pub mod Imported
