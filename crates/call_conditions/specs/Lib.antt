pub mod Agreeing
pub mod Conditions
pub mod Copies
pub mod Histories
