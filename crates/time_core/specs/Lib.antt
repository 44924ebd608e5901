pub mod Spelled
pub mod Times
