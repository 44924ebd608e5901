pub mod Openings
pub mod Said
pub mod Steps
