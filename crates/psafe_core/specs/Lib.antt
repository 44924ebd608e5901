pub mod Records
pub mod Outcome
