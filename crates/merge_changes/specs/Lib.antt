pub mod Changes
pub mod Equality
