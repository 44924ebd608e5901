pub mod Calls
pub mod Examples
pub mod Keeping
pub mod OfSession
pub mod Opened
pub mod Past
