pub mod Cases
pub mod Newest
