pub mod Calls
pub mod SessionLaws
