pub mod Bytes
pub mod Having
pub mod Inputs
