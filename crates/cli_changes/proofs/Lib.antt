pub mod Stopped
pub mod Examples
pub mod Names
pub mod RemovalLine
