pub mod HeldImports
pub mod Imported
pub mod Refused
pub mod Sealings
