pub mod Gathered
pub mod Sorted
