pub mod Examples
pub mod Succeeds
