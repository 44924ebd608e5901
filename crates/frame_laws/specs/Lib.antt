pub mod Entries
pub mod Example
pub mod Frame
pub mod Removals
pub mod Undoing
