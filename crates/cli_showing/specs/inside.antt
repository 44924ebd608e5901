pub mod Entries
pub mod Names
pub mod Searching
pub mod Walking
