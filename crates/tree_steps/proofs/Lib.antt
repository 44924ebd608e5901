pub mod ChangedEntries
pub mod Holds
pub mod InPlace
pub mod Steps
pub mod Texts
