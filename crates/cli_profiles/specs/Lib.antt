pub mod Generating
pub mod Profiles
