pub mod Example
mod Lengths
pub mod Within
