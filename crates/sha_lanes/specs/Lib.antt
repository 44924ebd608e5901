pub mod Hashing
pub mod Lanes
