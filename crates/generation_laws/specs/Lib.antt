pub mod Conditions
pub mod Example
