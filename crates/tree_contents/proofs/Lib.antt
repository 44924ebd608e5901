pub mod ProperContents
pub mod Kept
pub mod Places
pub mod Taken
pub mod Ranges
