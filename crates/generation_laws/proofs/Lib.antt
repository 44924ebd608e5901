pub mod Choosing
pub mod Example
