pub mod Choices
pub mod Cuts
pub mod DrawnOnce
pub mod Example
