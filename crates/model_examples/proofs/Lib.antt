pub mod Entries
pub mod Groups
pub mod NewDatabase
pub mod Parts
pub mod Versions
