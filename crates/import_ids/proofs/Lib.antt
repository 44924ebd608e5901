pub mod Counted
pub mod NamedIds
