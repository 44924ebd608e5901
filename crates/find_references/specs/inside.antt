pub mod Indexed
pub mod Seen
pub mod SeenEntries
pub mod Sought
