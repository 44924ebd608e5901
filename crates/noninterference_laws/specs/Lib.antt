pub mod Example
pub mod Masks
