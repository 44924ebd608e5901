mod Examples
pub mod Lasts
pub mod Names
pub mod Records
pub mod Texts
pub mod Whole
