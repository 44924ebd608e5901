pub mod Openings
pub mod SessionLines
