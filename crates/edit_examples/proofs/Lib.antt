pub mod Edited
pub mod Newest
