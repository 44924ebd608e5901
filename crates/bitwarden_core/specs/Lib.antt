pub mod Folders
pub mod Placing
pub mod Documents
pub mod Steps
